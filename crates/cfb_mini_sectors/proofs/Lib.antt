pub use Rattle.cfb_directory.proofs.cfb_slots
pub use Rattle.cfb_directory.proofs.cfb_outline
pub use Rattle.cfb_directory.proofs.cfb_siblings
pub use Rattle.cfb_directory.proofs.cfb_trees
pub use Rattle.cfb_directory.proofs.cfb_entries
pub use Rattle.cfb_sectors.proofs as cfb_sectors
pub use Rattle.cfb_mini_table.proofs.cfb_tables
pub use Rattle.cfb_mini_table.proofs as cfb_mini_table
pub use Rattle.cfb_directory.proofs.cfb_table_words
pub use Rattle.cfb_directory.proofs.cfb_alloc
pub use Rattle.cfb_directory.proofs as cfb_directory
pub mod MiniClean
pub mod MiniStreams
pub mod MiniWords
pub mod HeldMini
pub mod HeldSteps
pub mod HeldGrown
pub mod HeldShortened
pub mod ListedChains
pub mod MiniPlaces
pub mod MiniFrames
pub mod PiecePlaces
pub mod PieceWrites
pub mod MiniRows
pub mod WordRuns
pub mod MinifatNamed
pub mod MinifatGrown
pub mod BothGrown
pub mod RoomInTurn
