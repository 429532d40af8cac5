pub use Rattle.cfb_soundness.proofs as cfb_soundness
pub use Rattle.cfb_alloc.proofs.cfb_tables
pub use Rattle.cfb_alloc.proofs.cfb_table_words
pub use Rattle.cfb_alloc.proofs as cfb_alloc
pub mod Kept
pub mod Grown
pub mod Frames
pub mod Growing
pub mod Contents
pub mod MiniGrown
