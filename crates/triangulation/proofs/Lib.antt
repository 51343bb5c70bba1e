-- A piece and its neighbours, lists that are made turn by turn,
pub mod Meeting
pub mod Turns
-- the pieces of an element and of a list,
pub mod Pieces
-- and the entry.
pub mod Sizing
pub mod Keeping
pub mod Door
