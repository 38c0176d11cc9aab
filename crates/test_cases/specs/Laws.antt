pub mod Given
pub mod Connect
pub mod Table
