pub mod Words
pub mod Counts
pub mod Judged
