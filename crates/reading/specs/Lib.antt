-- the parts of a file, and their order
pub mod Parts
pub mod Walk
-- what the file is found to be
pub mod Places
pub mod Picked
