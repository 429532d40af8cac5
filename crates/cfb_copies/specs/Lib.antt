pub use Rattle.cfb_outline.specs as cfb_outline
pub use Rattle.cfb_siblings.specs as cfb_siblings
pub use Rattle.cfb_copy_sizes.specs.cfb_trees
pub use Rattle.cfb_creating.specs.cfb_entries
pub use Rattle.cfb_copy_sizes.specs.cfb_tables
pub use Rattle.cfb_creating.specs.cfb_alloc
pub use Rattle.cfb_creating.specs.cfb_directory
pub use Rattle.cfb_creating.specs.cfb_mini_sectors
pub use Rattle.cfb_built.specs.cfb_rules
pub use Rattle.cfb_copy_sizes.specs.cfb_objects
pub use Rattle.cfb_volume.specs.cfb_content
pub use Rattle.cfb_volume.specs.cfb_resizing
pub use Rattle.cfb_volume.specs.cfb_agreement
pub use Rattle.cfb_volume.specs.cfb_entry_changes
pub mod Steps
pub mod Copies
pub mod Salvaged
