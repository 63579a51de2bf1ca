pub mod Steps
pub mod Slots
