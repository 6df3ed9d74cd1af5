pub mod Names
pub mod Objects
pub mod Fault
pub mod Reading
pub mod Source
pub mod Writing
pub mod Levels
pub mod Laws
