pub mod Bins
pub mod After
pub mod Records
