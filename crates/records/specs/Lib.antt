pub mod Records
pub mod Promises
pub mod Reasons
pub mod Building
