pub mod Round
pub mod Quotient
pub mod Hundredths
pub mod Steps
pub mod Sum
