pub mod Terms
pub mod Asks
pub mod Parts
pub mod Flat
pub mod Shares
pub mod Stocks
