pub mod Draws
pub mod Leads
