pub mod MemAp
pub mod Deliver
pub mod WellFormed
pub mod Line
pub mod Expected
