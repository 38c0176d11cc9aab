pub mod Along
pub mod Runs
