-- what the program lends
pub mod Cells
