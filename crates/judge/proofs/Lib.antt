-- The laws of the judge: rows that pass a test, curves one after the other
pub mod Every
pub mod Parts
pub mod Verdicts
