pub mod Passes
pub mod Loads
pub mod Folder
pub mod Index
pub mod Memory
pub mod Refusals
pub mod Readied
