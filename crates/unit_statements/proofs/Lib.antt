pub mod Claimed
pub mod Questions
pub mod Standing
mod Wanting
