pub mod SlotPlaces
pub mod SlotLists
pub mod SlotWrites
