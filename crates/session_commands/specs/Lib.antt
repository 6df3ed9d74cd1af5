pub mod Settings
pub mod Levels
pub mod Session
pub mod Replies
pub mod Access
pub mod Views
