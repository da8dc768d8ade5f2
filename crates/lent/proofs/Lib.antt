pub mod Lent
pub mod Putting
pub mod Updated
pub mod Numbers
pub mod Filled
