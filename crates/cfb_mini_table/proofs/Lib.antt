pub use Rattle.cfb_tables.proofs as cfb_tables
pub mod CountLemmas
pub mod EndLemmas
pub mod MiniFreeLemmas
pub mod TakenLemmas
pub mod LinkLemmas
pub mod FreedLemmas
pub mod LawLemmas
pub mod StateLemmas
