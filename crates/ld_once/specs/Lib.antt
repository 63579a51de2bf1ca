pub mod Inputs
pub mod Loading
pub mod Outcomes
pub mod Replies
pub mod Runs
pub mod Underway
