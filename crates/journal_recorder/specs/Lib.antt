pub mod Laying
pub mod Recording
pub mod Ahead
pub mod Reading
pub mod Checkpointing
