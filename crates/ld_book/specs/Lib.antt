pub mod Pages
pub mod Documents
pub mod Said
pub mod Kept
pub mod Seats
pub mod Passes
