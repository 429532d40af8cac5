pub mod Families
pub mod Outlines
