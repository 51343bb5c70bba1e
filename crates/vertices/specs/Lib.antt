pub mod Cells
pub mod Gathered
