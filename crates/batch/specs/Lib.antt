pub mod Lines
pub mod Lent
pub mod Batch
pub mod Parts
pub mod Claims
