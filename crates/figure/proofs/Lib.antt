pub mod Laying
pub mod Elements
pub mod Strings
pub mod Benches
