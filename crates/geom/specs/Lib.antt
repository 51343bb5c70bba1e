-- Document 01 as definitions. Read in this order: the list rules and the ledger,
pub mod Parity
pub mod Book
pub mod Kinds
pub mod Elements
pub mod Rules
pub mod Simplices
pub mod Cubes
pub mod Passes
pub mod Ledger
pub mod Between
-- the vertex rules, and the refinement of a whole mesh,
pub mod Form
pub mod Floats
pub mod Forms
pub mod Vertices
pub mod Mesh
pub mod Smoothing
pub mod Answers
pub mod Refinement
-- a mesh in memory, and what is refused
pub mod Memory
pub mod Refusals
pub mod Lent
-- what a refinement keeps
pub mod Soundness
-- what else is done with a mesh, and (document 02) what triangulation does to a ledger (U8) and the other parities to normals (U5)
pub mod Triangulation
pub mod Cutting
pub mod Normals
pub mod Turning
-- the file, the listing, and the program
pub mod File
pub mod Listing
pub mod Sheet
