pub mod Doors
pub mod Faults
pub mod Memory
pub mod Passing
pub mod Sides
pub mod Status
pub mod StdSink
pub mod StdSource
