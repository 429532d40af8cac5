pub use Rattle.cfb_objects.proofs.cfb_rules
pub use Rattle.cfb_objects.proofs.cfb_siblings
pub use Rattle.cfb_objects.proofs.cfb_trees
mod Levels
mod Walking
mod Standing
mod Stood
mod Whole
mod Ordered
