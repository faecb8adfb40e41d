pub mod Stops
pub mod Uses
