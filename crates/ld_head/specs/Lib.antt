pub mod Heads
pub mod Paths
pub mod Dialogues
pub mod Searching
pub mod Pieces
pub mod Reading
pub mod Replies
pub mod Outcomes
