pub mod Whole
pub mod Split
