pub mod Stretch
pub mod Call
pub mod Meaning
pub mod Inner
