pub mod Theorem
pub mod Chains
pub mod Over
