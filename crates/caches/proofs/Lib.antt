pub mod Known
pub mod Fetches
pub mod Evicts
