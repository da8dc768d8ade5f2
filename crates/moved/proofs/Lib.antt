pub mod ByOctets
pub mod Calls
pub mod Opened
pub mod Wishes
pub mod DualByOctets
pub mod DualCalls
