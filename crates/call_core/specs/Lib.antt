pub mod Cortex
pub mod Core
pub mod Frame
pub mod Function
pub mod Laws
