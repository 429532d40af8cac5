pub use Rattle.cfb_creating.specs.cfb_content
pub use Rattle.cfb_creating.specs.cfb_mini_sectors
