pub use Rattle.cfb_commands.proofs.cfb_volume
pub use Rattle.cfb_commands.proofs.cfb_agreement
pub use Rattle.cfb_commands.proofs.cfb_compound_file
pub mod Behind
pub mod Stored
pub mod WholeWrites
pub mod WholePuts
pub mod WholeReads
