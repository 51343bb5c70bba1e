-- The cases that document 01 marks, computed.
pub mod Marked
-- Demand 3 over the definitions, from the ground up; the claims for any number of passes are in Demand3,
pub mod Lists
pub mod Rows
pub mod Within
pub mod Equal
pub mod Endings
pub mod Stated
pub mod Integers
pub mod Sums
pub mod Spread
pub mod Chains
pub mod Books
pub mod Refining
pub mod Flats
pub mod Cells
pub mod Well
pub mod Steps
pub mod Corners
pub mod Closing
pub mod Recovery
pub mod Demand3
-- and in Refined those for every accepted mesh, every depth and every lending.
pub mod Left
pub mod Accepted
pub mod Refined
-- The ledger of cubes through triangulation; and a mesh of cubes, the eight around a 4D cube, that closes.
pub mod Cutting
pub mod Around
-- A mesh that is written over a bench stands there, and a pass leaves such a mesh.
pub mod Back
pub mod Standing
pub mod Forming
-- The file: what is written reads back (Reread, for every accepted mesh in Storing), what is read and written has its old bytes (Unread), and how long it is (Spans).
pub mod Reread
pub mod Storing
pub mod Unread
pub mod Spans
-- What every pass keeps, over any form; what the refinement keeps of every accepted mesh;
pub mod Steady
pub mod Joins
pub mod Pinned
pub mod Apart
pub mod Again
pub mod Kept
-- and that binary32 is such a form.
pub mod Stays
-- The normals when every parity is changed, from the sign by parity
pub mod Signs
pub mod Flipped
pub mod Summing
pub mod Turning
