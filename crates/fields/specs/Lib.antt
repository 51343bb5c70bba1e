pub mod Fields
pub mod Listed
