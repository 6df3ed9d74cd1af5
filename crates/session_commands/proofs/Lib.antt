mod Entries
pub mod Appending
