-- one text for another
pub mod Texts
-- how long a text is
pub mod Lengths
pub mod Held
-- what a run leaves, and what is handed on of it
pub mod Refining
pub mod Picking
