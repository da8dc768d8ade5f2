pub mod Lent
pub mod Put
pub mod Ascii
