pub use Rattle.cfb_alloc.proofs.cfb_tables
pub use Rattle.cfb_alloc.proofs.cfb_table_words
pub use Rattle.cfb_alloc.proofs as cfb_alloc
pub mod Runs
pub mod Along
