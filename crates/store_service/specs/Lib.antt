pub mod Running
pub mod Surviving
