pub mod Along
pub mod OneStep
