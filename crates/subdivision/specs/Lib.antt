-- The entry of the refinement of simplices.
pub mod Entry
