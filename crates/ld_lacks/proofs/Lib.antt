pub mod Lacking
pub mod Short
pub mod ShortAnswers
pub mod ShortCompaction
pub mod ShortContexts
pub mod ShortExpansion
pub mod ShortTerms
