pub mod Signed
pub mod Published
pub mod Magnitude
pub mod Ray
pub mod Octets
pub mod Readings
pub mod Passed
