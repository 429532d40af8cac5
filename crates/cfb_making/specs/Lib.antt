pub use Rattle.cfb_built.specs.cfb_rules
pub use Rattle.cfb_built.specs as cfb_built
pub mod Making
