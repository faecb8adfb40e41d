pub mod Words
pub mod Reading
pub mod Stored
pub mod Buffer
pub mod Calls
pub mod Forecast
