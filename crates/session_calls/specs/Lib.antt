pub mod Calls
pub mod Plan
pub mod Session
pub mod Laws
