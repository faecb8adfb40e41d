pub mod Examples
pub mod Firsts
pub mod Scans
pub mod Decimals
pub mod Puts
