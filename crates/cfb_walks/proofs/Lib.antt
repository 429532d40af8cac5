pub mod Levels
pub mod Walking
pub mod Within
