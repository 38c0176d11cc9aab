pub mod Result
pub mod Log
