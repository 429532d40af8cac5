pub mod Years
pub mod Months
pub mod Fractions
pub mod Texts
pub mod Words
