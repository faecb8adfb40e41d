pub mod Indices
pub mod Changes
pub mod Stores
pub mod Causes
pub mod Calls
