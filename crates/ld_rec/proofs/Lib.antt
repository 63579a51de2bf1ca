mod Examples
mod TermExamples
pub mod Staying
pub mod Holding
pub mod PromisingTerms
pub mod Promising
pub mod FormedHolding
pub mod FormedMaps
pub mod FormedValues
pub mod FormedRules
pub mod FormedReverse
pub mod FormedNodes
pub mod FormedEnds
pub mod FormedElements
pub mod Levels
