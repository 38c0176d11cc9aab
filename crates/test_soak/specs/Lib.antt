pub mod Drawn
pub mod Laws
