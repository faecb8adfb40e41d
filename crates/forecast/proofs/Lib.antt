pub mod Turns
pub mod Walks
pub mod Causes
pub mod Copies
pub mod Calls
