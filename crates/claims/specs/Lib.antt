pub mod Refusals
pub mod Allowances
pub mod Rights
pub mod Lines
pub mod Forecasts
