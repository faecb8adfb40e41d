pub mod Areas
pub mod Versions
pub mod Keys
pub mod Stores
pub mod Merged
pub mod Moves
