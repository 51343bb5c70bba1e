-- The pieces that tables in memory make of elements, and what the entry answers.
pub mod Cutting
pub mod Entry
-- The tables of squares and of cubes.
pub mod Tables
