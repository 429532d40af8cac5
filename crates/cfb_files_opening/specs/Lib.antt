pub use Rattle.cfb_compound_file.specs.cfb_mini_sectors
pub use Rattle.cfb_compound_file.specs.cfb_agreement
pub use Rattle.cfb_compound_file.specs.cfb_opening
