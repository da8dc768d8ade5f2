pub mod Single
pub mod Right
pub mod Strict
