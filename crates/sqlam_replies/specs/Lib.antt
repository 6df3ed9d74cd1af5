pub mod Message
pub mod Sqlcard
pub mod Sqldard
pub mod Names
pub mod Rows
pub mod Parameters
pub mod Kind
pub mod Reply
