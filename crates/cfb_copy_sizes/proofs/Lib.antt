pub use Rattle.cfb_objects.proofs.cfb_trees
pub use Rattle.cfb_tables.proofs as cfb_tables
pub use Rattle.cfb_objects.proofs as cfb_objects
pub mod Room
pub mod Counts
pub mod TooMuch
pub mod Growth
pub mod Having
pub mod Created
pub mod Cuts
