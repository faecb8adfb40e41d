pub mod Drawings
pub mod Found
pub mod Explains
