pub mod Answers
pub mod Fairness
