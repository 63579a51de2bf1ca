pub mod Results
pub mod Totals
