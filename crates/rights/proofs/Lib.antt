pub mod Away
pub mod Rights
