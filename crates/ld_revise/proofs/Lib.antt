pub mod Going
pub mod Counting
pub mod Making
pub mod Reaching
pub mod Resting
pub mod Walking
pub mod Ending
