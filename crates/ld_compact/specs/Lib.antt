pub mod Adding
pub mod Elements
pub mod Compaction
pub mod Renaming
pub mod Slots
pub mod Standing
pub mod Steps
