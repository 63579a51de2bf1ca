pub mod Known
pub mod Listed
pub mod Rises
