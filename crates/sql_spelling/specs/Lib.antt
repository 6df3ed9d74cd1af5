pub mod Text
pub mod Meant
