pub mod AllCuts
pub mod Portion
pub mod Texts
pub mod Moving
pub mod Starting
pub mod Steps
pub mod Pages
