pub mod Trail
pub mod Chain
pub mod Loops
pub mod Laws
