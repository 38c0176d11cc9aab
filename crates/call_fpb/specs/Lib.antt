pub mod Fpb
pub mod Breakpoint
pub mod Laws
