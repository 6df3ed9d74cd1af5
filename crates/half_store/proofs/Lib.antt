mod Found
mod Pages
mod Written
pub mod Formatted
pub mod Kept
mod Switched
pub mod Larger
