pub mod Rows
pub mod Numbers
pub mod Search
pub mod Adding
pub mod Others
pub mod Changing
