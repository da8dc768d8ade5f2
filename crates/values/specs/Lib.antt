pub mod Published
pub mod Reading
pub mod Ray
pub mod Table
pub mod Inner
