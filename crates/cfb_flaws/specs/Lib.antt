pub mod Owners
pub mod Claims
pub mod Flaws
pub mod Searches
pub mod Telling
pub mod Reach
pub mod Each
