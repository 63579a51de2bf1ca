pub mod Asks
pub mod Play
pub mod Fits
pub mod Leading
pub mod Examples
