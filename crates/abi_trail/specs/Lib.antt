pub mod Linked
pub mod Everywhere
pub mod Laws
