pub mod Calls
pub mod Counts
pub mod Kept
pub mod Starts
pub mod Tells
pub mod Trials
