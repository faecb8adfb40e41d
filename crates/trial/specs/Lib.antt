pub mod Jobs
pub mod Trials
