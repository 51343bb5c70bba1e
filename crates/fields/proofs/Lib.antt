pub mod Refused
pub mod Reading
pub mod Several
pub mod Curves
pub mod Listing
