pub mod Played
pub mod Laws
