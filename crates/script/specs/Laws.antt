pub mod Loads
pub mod Lending
pub mod Performing
