pub mod Fault
pub mod Wrong
pub mod Shortest
