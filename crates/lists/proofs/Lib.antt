-- one list after the other, with one book
pub mod Passing
