pub mod Snapshots
