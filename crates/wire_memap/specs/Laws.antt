pub mod Doing
pub mod Flight
