pub mod Excuse
pub mod Place
pub mod Order
pub mod Bytes
pub mod Number
