-- the elements that normals come from, and the lent normals as cells
pub mod Cells
-- what an entry owes of the elements
pub mod Entry
-- what is owed of vectors and points in cells
pub mod Rows
