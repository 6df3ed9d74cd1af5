pub mod Stores
pub mod Survivors
