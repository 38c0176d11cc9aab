pub mod Plan
pub mod Expected
