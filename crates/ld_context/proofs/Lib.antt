pub mod Framing
pub mod Levels
pub mod Protected
pub mod SameMaps
pub mod Scoping
pub mod Telling
pub mod Terms
pub mod Undoing
