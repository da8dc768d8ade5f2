pub mod Rules
pub mod Fields
pub mod Parts
pub mod Checks
pub mod Verdict
pub mod Accepted
pub mod Good
pub mod Ready
