pub use Rattle.cfb_listing.specs.cfb_outline
pub mod Rows
pub mod Lines
pub mod Along
pub mod Trails
pub mod Trees
