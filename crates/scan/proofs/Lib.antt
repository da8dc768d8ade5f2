pub mod Scanning
pub mod Moved
