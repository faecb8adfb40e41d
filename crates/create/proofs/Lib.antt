pub mod Sized
pub mod Tails
pub mod Fresh
pub mod Outcomes
