pub mod Asking
pub mod Holding
pub mod Sending
pub mod Turning
pub mod Usable
pub mod Remaining
pub mod Locking
