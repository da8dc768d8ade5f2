pub mod Usable
pub mod Records
pub mod Rows
