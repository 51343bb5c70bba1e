-- The chain, proved of any three calls, and walked from a mesh of cubes that closes.
pub mod Through
pub mod Walked
