pub use Rattle.cfb_stream_window.proofs.cfb_rules
pub mod Calls
pub mod Knowing
