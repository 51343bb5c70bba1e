-- A digital search tree over lent cells: keys of so many words, found and entered by their bits.
pub mod Keys
pub mod Cells
pub mod Trees
pub mod Answers
