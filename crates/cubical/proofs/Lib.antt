-- One square in memory.
pub mod Squared
