pub mod Unfit
pub mod Same
pub mod Refused
pub mod Determined
pub mod Samples
