pub mod Divisions
pub mod Stores
pub mod Steps
