pub mod Tests
pub mod Numbers
pub mod Words
pub mod Lists
pub mod Turns
