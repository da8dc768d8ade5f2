pub mod Decimal
pub mod Digits
pub mod Lines
pub mod Words
pub mod Sample
