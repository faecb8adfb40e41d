pub mod Format
pub mod Snapshots
pub mod Audit
pub mod Claims
pub mod Walk
pub mod Own
