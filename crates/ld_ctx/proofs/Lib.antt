pub mod Colons
pub mod ByPlace
pub mod Sharing
