-- From cells to definitions, over the width of a row
pub mod Written
-- the vertex rules: vertices copied and made, and what each vertex gathers
pub mod Making
pub mod Gathering
pub mod Settling
pub mod Smoothed
pub mod Kept
-- both together: the vertices that a pass leaves
pub mod Passed
