pub mod Bytes
pub mod Outcomes
pub mod Wire
pub mod Laws
