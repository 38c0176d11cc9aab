pub mod Rows
pub mod Told
pub mod Numbers
