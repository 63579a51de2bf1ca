pub mod Gathering
pub mod Groups
pub mod Inverses
pub mod Orders
pub mod Questions
pub mod Tickets
pub mod Under
