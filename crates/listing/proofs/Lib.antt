-- texts written one after the other
pub mod Texts
-- numbers as digits
pub mod Numerals
-- which texts a line is made of
pub mod Parts
-- the whole listing
pub mod Whole
