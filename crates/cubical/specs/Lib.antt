-- That squares only add to the book.
pub mod Growing
