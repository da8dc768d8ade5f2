pub mod Near
pub mod Quotient
