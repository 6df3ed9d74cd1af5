pub mod Page
pub mod Reading
pub mod Parsing
pub mod Walk
pub mod Filling
pub mod Keeping
pub mod Laying
pub mod Judging
