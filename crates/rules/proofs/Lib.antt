pub mod Chains
pub mod Bounds
pub mod Moved
