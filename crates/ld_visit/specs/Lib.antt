pub mod Visits
pub mod Ending
pub mod Taking
pub mod Turns
