pub mod Results
pub mod Numbers
pub mod Log
pub mod Laws
