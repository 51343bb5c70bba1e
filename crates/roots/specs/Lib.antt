pub mod Exact
pub mod Counts
