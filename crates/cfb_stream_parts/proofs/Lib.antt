pub mod Worked
pub mod PartsStored
