pub mod Count
pub mod Flight
