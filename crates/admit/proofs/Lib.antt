pub mod Orders
pub mod Words
pub mod Small
pub mod Answers
pub mod Examples
