pub use Rattle.cfb_table_words.proofs.cfb_sectors
pub use Rattle.cfb_tables.proofs as cfb_tables
pub use Rattle.cfb_table_words.proofs as cfb_table_words
pub use Rattle.cfb_table_words.proofs.AgreementLemmas
pub use Rattle.cfb_table_words.proofs.Answering
pub use Rattle.cfb_table_words.proofs.DifatEntries
pub use Rattle.cfb_table_words.proofs.DifatWords
pub use Rattle.cfb_table_words.proofs.FrameLemmas
pub use Rattle.cfb_table_words.proofs.HeldLemmas
pub use Rattle.cfb_table_words.proofs.Listed
pub use Rattle.cfb_table_words.proofs.TableWords
pub mod AllocLemmas
pub mod FreeingLemmas
pub mod SeekLemmas
pub mod SoundTables
pub mod StrictFat
pub mod ChainView
pub mod EmptyChain
pub mod HeaderField
pub mod ListedLemmas
pub mod Frames
pub mod Spared
pub mod BrokenSpared
pub mod HeldOrder
pub mod FreshSlots
