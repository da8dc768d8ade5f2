pub mod Word
pub mod Fits
pub mod Arguments
pub mod Signed
