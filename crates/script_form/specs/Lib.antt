pub mod BigEndian
pub mod Script
pub mod Laws
