mod Entries
mod Standing
pub mod Pages
pub mod Switching
mod Written
pub mod Together
