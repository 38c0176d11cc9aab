pub mod Nrf52
pub mod Nrf54
pub mod Nrf
pub mod Laws
