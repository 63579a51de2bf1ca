pub mod Soaks
pub mod Steps
