pub mod Limits
pub mod Script
pub mod Fold
pub mod Tie
