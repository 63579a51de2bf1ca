pub mod Codes
pub mod Keywords
