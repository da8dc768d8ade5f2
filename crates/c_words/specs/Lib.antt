pub mod Word
pub mod Arguments
pub mod Runs
pub mod Files
pub mod Dual
