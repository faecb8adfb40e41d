pub mod Path
pub mod Rows
