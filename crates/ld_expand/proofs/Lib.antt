pub mod Stages
pub mod Cycle
pub mod KeywordTexts
pub mod Slots
pub mod Rules
pub mod Endings
pub mod Sorting
