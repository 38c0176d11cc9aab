pub mod Action
pub mod Ports
pub mod Words
pub mod Ops
pub mod Laws
