-- what a tetrahedron adds to each vertex
pub mod Cells
-- and what the entry owes of them
pub mod Entry
