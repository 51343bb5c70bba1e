-- The book over lent cells: the definition's search over places, and what the index's answers make of the book.
pub mod Search
pub mod Placing
