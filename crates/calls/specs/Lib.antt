pub mod Cuts
pub mod Reasons
