pub mod Index
pub mod Pace
