pub use Rattle.cfb_content.proofs.cfb_mini_changes
pub use Rattle.cfb_objects.proofs.cfb_trees
pub use Rattle.cfb_content.proofs.cfb_soundness
pub use Rattle.cfb_content.proofs.cfb_mini_sectors
pub use Rattle.cfb_objects.proofs as cfb_objects
pub use Rattle.cfb_content.proofs as cfb_content
pub mod Flags
pub mod Parts
pub mod Settled
pub mod HeldBytes
pub mod Reopened
pub mod ContentChanges
pub mod InTurn
