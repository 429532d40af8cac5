pub use Rattle.cfb_access.proofs.cfb_mini
pub use Rattle.cfb_access.proofs.cfb_mini_sectors
pub use Rattle.cfb_resizing.proofs.cfb_directory
pub use Rattle.cfb_access.proofs.cfb_chains
pub use Rattle.cfb_access.proofs.cfb_alloc
pub use Rattle.cfb_access.proofs.cfb_content
pub use Rattle.cfb_resizing.proofs as cfb_resizing
pub use Rattle.cfb_resizing.proofs.cfb_mini_changes
pub use Rattle.cfb_resizing.proofs.cfb_tables
pub mod Appended
pub mod GrownLengths
pub mod TakenRest
