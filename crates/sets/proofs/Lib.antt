pub mod Views
pub mod Leads
pub mod Lacks
