mod Sending
mod Chains
mod Asking
mod Single
mod Checks
mod SentObjects
mod AccessObjects
mod SqlObjects
mod CursorObjects
mod SyncObjects
mod TreesOf
pub mod Failing
mod NotTaken
pub mod Conversing
pub mod Stepping
mod Pieces
mod Listening
pub mod Written
