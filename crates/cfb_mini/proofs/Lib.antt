pub use Rattle.cfb_mini_changes.proofs as cfb_mini_changes
pub use Rattle.cfb_mini_changes.proofs.cfb_outline
pub use Rattle.cfb_mini_changes.proofs.cfb_siblings
pub use Rattle.cfb_mini_changes.proofs.cfb_trees
pub use Rattle.cfb_mini_changes.proofs.cfb_entries
pub use Rattle.cfb_sectors.proofs as cfb_sectors
pub use Rattle.cfb_runs.proofs.cfb_tables
pub use Rattle.cfb_mini_changes.proofs.cfb_mini_table
pub use Rattle.cfb_runs.proofs.cfb_table_words
pub use Rattle.cfb_runs.proofs.cfb_alloc
pub use Rattle.cfb_mini_changes.proofs.cfb_directory
pub use Rattle.cfb_mini_changes.proofs.cfb_mini_sectors
pub use Rattle.cfb_mini_changes.proofs.MiniKnown
pub use Rattle.cfb_mini_changes.proofs.MiniExtended
pub use Rattle.cfb_mini_changes.proofs.MiniGiven
pub use Rattle.cfb_mini_changes.proofs.WholeFiles
pub mod MiniWritten
pub mod MiniStretches
pub mod MiniRoot
pub mod RootStays
pub mod MiniDirectory
pub mod MiniRoom
pub mod MiniOpening
pub mod MiniPieces
pub mod MiniBehind
pub mod MiniBegun
