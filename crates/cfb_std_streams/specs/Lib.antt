pub use Rattle.cfb_stream_window.specs.cfb_rules
pub use Rattle.cfb_stream_window.specs.cfb_stream_buffer
pub mod Kinds
pub mod Known
