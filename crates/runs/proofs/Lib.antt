pub mod Started
pub mod Drops
pub mod Opens
