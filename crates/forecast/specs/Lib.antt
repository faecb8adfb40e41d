pub mod Answers
pub mod Few
