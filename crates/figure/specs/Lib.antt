pub mod Written
pub mod Entry
