-- The chain from cubes to refined tetrahedra.
pub mod Calls
