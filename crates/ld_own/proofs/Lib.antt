pub mod Adding
pub mod Closing
pub mod Growing
pub mod Keeping
pub mod Loads
pub mod Opening
