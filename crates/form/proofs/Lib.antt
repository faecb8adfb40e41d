pub mod Loops
pub mod Runs
pub mod Masks
pub mod Snapshots
pub mod Stores
pub mod Known
pub mod Leaving
pub mod Flat
