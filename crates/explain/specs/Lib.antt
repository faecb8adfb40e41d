pub mod Answers
pub mod Drawing
