pub mod Change
pub mod Job
pub mod Asks
