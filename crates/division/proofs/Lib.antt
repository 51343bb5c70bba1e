-- From cells to definitions, over the width.
pub mod Rows
pub mod Tables
-- a rule for each entry of a list
pub mod Folds
-- an element divided by its tables
pub mod Middles
pub mod Flats
pub mod Dividing
pub mod Assembling
pub mod Divided
pub mod Listing
pub mod Halving
-- the steps of a curve, and curves
pub mod Threading
pub mod Strands
pub mod Winding
