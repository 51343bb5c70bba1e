-- texts in a lent buffer
pub mod Text
-- the whole listing
pub mod Printed
