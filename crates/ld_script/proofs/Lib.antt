pub mod Words
pub mod Arguments
pub mod Lines
pub mod Apart
pub mod Scripts
pub mod Decided
