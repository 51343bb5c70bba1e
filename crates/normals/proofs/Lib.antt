-- sums in lent cells: an element's normal added to each corner, and the elements one by one
pub mod Adding
-- each sum normalised in place, and the three loops together
pub mod Settling
-- the entries: what an acceptance gives, and what each answer means
pub mod Door
-- the parity's word as a signed number
pub mod Cast
