pub mod Put
pub mod Made
