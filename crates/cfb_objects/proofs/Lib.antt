pub use Rattle.cfb_rules.proofs as cfb_rules
pub use Rattle.cfb_trees.proofs.cfb_siblings
pub use Rattle.cfb_trees.proofs as cfb_trees
pub mod Places
pub mod Found
pub mod Facts
pub mod Same
pub mod Level
pub mod Fields
pub mod Added
pub mod Becoming
pub mod Leading
pub mod Balance
