pub mod Layout
pub mod Header
pub mod Active
pub mod Opened
pub mod Fresh
pub mod Writing
pub mod Switching
