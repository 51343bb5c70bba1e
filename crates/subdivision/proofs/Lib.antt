-- demand 3, from the answer and what is left
pub mod Keeping
-- the entry's door
pub mod Door
