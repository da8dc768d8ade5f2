pub mod Finding
pub mod ByVerdict
pub mod Judging
