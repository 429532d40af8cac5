pub use Rattle.cfb_content.proofs.cfb_alloc
pub use Rattle.cfb_content.proofs.cfb_sectors
pub use Rattle.cfb_content.proofs.cfb_mini_changes
pub use Rattle.cfb_content.proofs.cfb_mini_sectors
pub use Rattle.cfb_content.proofs.cfb_chains
pub use Rattle.cfb_content.proofs.cfb_mini
pub use Rattle.cfb_content.proofs.cfb_tables
pub use Rattle.cfb_content.proofs as cfb_content
pub mod Written
