pub mod Listing
pub mod Mended
pub mod Missing
pub mod Tables
pub mod WholeFile
