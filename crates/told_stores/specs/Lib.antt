pub mod Doubts
pub mod Rooms
pub mod Telling
pub mod Dumps
