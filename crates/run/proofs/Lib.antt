-- a turn from one bench to the other
pub mod Turning
-- and the loop over both directions
pub mod Going
