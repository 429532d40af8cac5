pub use Rattle.cfb_stream_buffer.specs.cfb_rules
pub mod Memory
