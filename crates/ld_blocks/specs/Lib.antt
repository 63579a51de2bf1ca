pub mod Listed
pub mod Blocked
