pub mod Opening
pub mod Rays
pub mod Stretching
pub mod Promises
pub mod Reasons
