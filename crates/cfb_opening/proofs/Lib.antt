pub use Rattle.cfb_agreement.proofs.cfb_content
pub use Rattle.cfb_reading.proofs as cfb_reading
pub use Rattle.cfb_agreement.proofs.cfb_mini_sectors
pub mod Refusals
pub mod StreamNumbers
pub mod TableParts
pub mod Writable
pub mod ReadParts
pub mod BuiltParts
pub mod OpenedFile
