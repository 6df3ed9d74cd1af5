pub mod Entries
pub mod Sending
pub mod Looking
pub mod Room
