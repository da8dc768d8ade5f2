pub mod File
pub mod Smaller
