-- the text that is printed
pub mod Page
