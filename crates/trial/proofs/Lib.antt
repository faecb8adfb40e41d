pub mod Known
pub mod Masks
pub mod Cases
pub mod Trials
pub mod Finds
