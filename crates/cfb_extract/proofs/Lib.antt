pub use Rattle.cfb_compound_file.proofs.cfb_listing
pub use Rattle.cfb_compound_file.proofs.cfb_agreement
pub use Rattle.cfb_compound_file.proofs.cfb_path_changes
mod Longer
mod Flat
mod Named
mod Streams
mod Told
mod Meaning
