pub mod Core
pub mod Fpb
pub mod Nrf
