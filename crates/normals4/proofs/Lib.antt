-- what a tetrahedron adds, and what that comes to
pub mod Faces
