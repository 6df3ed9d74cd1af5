pub mod Shown
pub mod Early
