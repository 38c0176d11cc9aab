pub mod Transfer
pub mod Count
pub mod Laws
