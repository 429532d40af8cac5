pub mod Walks
pub mod Joined
