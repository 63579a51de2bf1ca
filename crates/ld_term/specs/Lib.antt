pub mod Comes
pub mod NextSizes
pub mod Runs
pub mod Sizes
pub mod Waits
