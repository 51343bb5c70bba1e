-- the side that the pass count picks
pub mod Picked
