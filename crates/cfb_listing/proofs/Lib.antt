pub use Rattle.cfb_trees.proofs as cfb_trees
pub use Rattle.cfb_rules.proofs as cfb_rules
pub mod Slashes
pub mod Telling
pub mod Levels
pub mod Leaving
pub mod Walked
pub mod PlainPaths
pub mod PathNames
pub mod FoundNames
pub mod ReachedFound
pub mod MeantNames
pub mod PathFacts
pub mod Compared
