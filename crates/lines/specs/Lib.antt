pub mod Rooms
pub mod Text
pub mod Words
