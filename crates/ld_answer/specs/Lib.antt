pub mod Envelopes
pub mod Targets
pub mod Readings
pub mod Answers
pub mod Bodies
