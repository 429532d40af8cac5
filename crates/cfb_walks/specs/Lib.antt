pub use Rattle.cfb_outline.specs as cfb_outline
pub mod Walks
