-- what a triangle adds, and what that comes to
pub mod Faces
