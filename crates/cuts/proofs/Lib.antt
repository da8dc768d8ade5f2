pub mod Places
pub mod From
pub mod Rays
pub mod After
