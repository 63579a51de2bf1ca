pub mod Fields
pub mod Missing
pub mod Once
pub mod Reasons
