pub mod Waiting
pub mod Searches
pub mod Known
pub mod Turning
pub mod Rounds
pub mod Picks
pub mod Fairness
pub mod Uses
