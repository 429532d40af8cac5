pub mod Appending
pub mod Apart
pub mod Bytes
pub mod Codes
pub mod Files
pub mod Meaning
pub mod Reading
