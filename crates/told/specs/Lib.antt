pub mod Cells
pub mod Told
