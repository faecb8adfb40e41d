pub mod Closures
pub mod Frontiers
