pub mod Components
pub mod Words
pub mod Resolution
pub mod Relative
pub mod View
pub mod Outputs
