pub mod Hearing
pub mod Judging
pub mod Sending
pub mod Talking
pub mod Concluding
pub mod Underway
pub mod Putting
