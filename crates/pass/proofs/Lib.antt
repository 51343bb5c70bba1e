-- Sizes within others, and what fits
pub mod Fitting
-- the state after a pass: its sizes, and when it doesn't fit
pub mod Next
-- what its calls ask for
pub mod Ready
-- and what they leave
pub mod Whole
