pub mod Copies
pub mod Freed
pub mod Known
pub mod Statuses
