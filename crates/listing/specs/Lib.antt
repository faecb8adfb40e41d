pub mod Scripts
pub mod Calls
pub mod Lines
