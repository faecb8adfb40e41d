pub mod Sites
pub mod Fetching
pub mod Taking
pub mod Merging
pub mod Carrying
pub mod Causes
pub mod Endings
