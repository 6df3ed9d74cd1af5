mod Strict
pub mod Precedes
pub mod Bytes
pub mod Number
