pub mod Counts
pub mod Joining
pub mod Leading
pub mod Noting
pub mod Placing
pub mod Texts
pub mod True
