-- One pass over two benches.
pub mod Benches
