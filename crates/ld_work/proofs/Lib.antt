pub mod Closing
pub mod Forms
pub mod Gathering
pub mod Pace
pub mod Sent
pub mod Steps
pub mod Underway
