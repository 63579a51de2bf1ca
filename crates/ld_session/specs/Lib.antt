pub mod Adding
pub mod Landing
pub mod Requesting
pub mod Serving
