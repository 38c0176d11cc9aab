pub mod Phase
pub mod Laws
