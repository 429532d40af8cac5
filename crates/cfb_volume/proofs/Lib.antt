pub use Rattle.cfb_entry_changes.proofs.cfb_rules
pub use Rattle.cfb_agreement.proofs.cfb_mini_changes
pub use Rattle.cfb_growing.proofs.cfb_resizing
pub use Rattle.cfb_agreement.proofs.cfb_mini_sectors
pub use Rattle.cfb_entry_changes.proofs.cfb_siblings
pub use Rattle.cfb_entry_changes.proofs.cfb_trees
pub use Rattle.cfb_entry_changes.proofs.cfb_entries
pub use Rattle.cfb_entry_changes.proofs.cfb_tables
pub use Rattle.cfb_entry_changes.proofs.cfb_directory
pub use Rattle.cfb_entry_changes.proofs.cfb_mini
pub use Rattle.cfb_entry_changes.proofs.cfb_objects
pub use Rattle.cfb_entry_changes.proofs.cfb_content
pub use Rattle.cfb_agreement.proofs as cfb_agreement
pub use Rattle.cfb_sequences.proofs as cfb_sequences
pub use Rattle.cfb_entry_changes.proofs as cfb_entry_changes
pub mod Settings
pub mod EmptyStreams
pub mod LostEntries
pub mod Tidy
pub mod InsertedObjects
pub mod ContentSteps
pub mod Fullness
pub mod InMemory
pub mod Refusals
pub mod Emptying
pub mod Insides
pub mod InsideNames
pub mod Forgotten
pub mod EmptiedStreams
pub mod Steps
pub mod Balances
pub mod ClearedStorages
pub mod EmptiedStorages
pub mod RemovedStorages
pub mod MarkedObjects
pub mod RemovedObjects
pub mod UsedSlots
pub mod PutObjects
