pub mod ByOctets
pub mod Wishes
pub mod DualByOctets
