pub mod Stepping
pub mod Along
pub mod Ready
