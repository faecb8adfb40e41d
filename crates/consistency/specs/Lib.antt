pub mod Roles
pub mod Trace
pub mod Leading
pub mod Listed
pub mod Claim
pub mod Lasting
