pub mod Stocks
pub mod Moving
pub mod Standing
