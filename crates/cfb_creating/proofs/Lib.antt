pub use Rattle.cfb_mini_sectors.proofs.cfb_siblings
pub use Rattle.cfb_alloc.proofs.cfb_tables
pub use Rattle.cfb_mini_sectors.proofs as cfb_mini_sectors
pub use Rattle.cfb_agreement.proofs.cfb_objects
pub mod Pieces
pub mod Refusals
pub mod Parts
pub mod CreatedFile
