-- What a run over two benches leaves.
pub mod Runs
