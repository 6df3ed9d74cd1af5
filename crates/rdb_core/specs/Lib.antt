pub mod InDoubt
pub mod State
pub mod Recorded
pub mod Steps
pub mod Looks
pub mod Restored
pub mod Copied
pub mod PlainState
