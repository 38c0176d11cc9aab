pub mod Connect
pub mod Laws
