pub mod Ends
pub mod Forms
pub mod Gathering
pub mod Shifts
pub mod Working
