pub mod Arriving
pub mod Saying
pub mod Taken
