-- The list rules of a pass over lent words: what a slice holds after a write, the shape that tables stand for, the midpoints of an
-- element's edges, and curves.
pub mod Writing
pub mod Shapes
pub mod Middles
pub mod Threads
-- rules only add to the book
pub mod Growing
