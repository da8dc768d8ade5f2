pub mod Cells
pub mod Answering
pub mod Theorems
pub mod Samples
