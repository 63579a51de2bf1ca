pub mod Agreeing
pub mod Assembly
pub mod Levels
pub mod Made
pub mod Numbered
pub mod Standing
pub mod Steps
pub mod Telling
