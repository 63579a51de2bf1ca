pub mod Own
pub mod Adding
pub mod Loads
