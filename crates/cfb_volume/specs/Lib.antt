pub use Rattle.cfb_outline.specs as cfb_outline
pub use Rattle.cfb_reading.specs as cfb_reading
pub use Rattle.cfb_entry_changes.specs.cfb_siblings
pub use Rattle.cfb_entry_changes.specs.cfb_trees
pub use Rattle.cfb_entry_changes.specs.cfb_entries
pub use Rattle.cfb_entry_changes.specs.cfb_tables
pub use Rattle.cfb_entry_changes.specs.cfb_alloc
pub use Rattle.cfb_entry_changes.specs.cfb_directory
pub use Rattle.cfb_entry_changes.specs.cfb_mini_sectors
pub use Rattle.cfb_entry_changes.specs.cfb_mini
pub use Rattle.cfb_sequences.specs.cfb_rules
pub use Rattle.cfb_entry_changes.specs.cfb_objects
pub use Rattle.cfb_entry_changes.specs.cfb_content
pub use Rattle.cfb_growing.specs.cfb_resizing
pub use Rattle.cfb_agreement.specs as cfb_agreement
pub use Rattle.cfb_sequences.specs as cfb_sequences
pub use Rattle.cfb_entry_changes.specs as cfb_entry_changes
pub mod Slots
pub mod Clearing
pub mod Answers
pub mod Removing
pub mod Changing
pub mod Inserting
pub mod Marking
pub mod Streams
