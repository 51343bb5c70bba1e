-- The index over lent cells: keys are told by their bits, the way of a key leads to its entry, and a new entry leaves every way as it was.
pub mod Bits
pub mod Rows
pub mod Ways
pub mod Entering
pub mod Pairs
