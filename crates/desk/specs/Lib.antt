-- the desk of the program
pub mod Desk
