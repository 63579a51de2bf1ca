pub mod Lines
pub mod Scripts
pub mod Printed
pub mod Reading
