pub mod Whole
pub mod Scratch
pub mod Texts
pub mod Lengths
pub mod Takings
pub mod Programs
pub mod Uses
pub mod Examples
