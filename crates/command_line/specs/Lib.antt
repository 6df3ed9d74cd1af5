pub mod Grammar
pub mod Number
pub mod Spelling
pub mod Job
pub mod Reading
