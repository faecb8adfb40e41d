pub mod Lines
pub mod Folds
pub mod Steps
pub mod Ties
pub mod Serves
pub mod Examples
pub mod Uses
