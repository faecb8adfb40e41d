pub mod Answers
pub mod Branches
pub mod Few
