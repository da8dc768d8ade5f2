pub mod Totals
pub mod Fronts
pub mod Weighed
pub mod Counting
