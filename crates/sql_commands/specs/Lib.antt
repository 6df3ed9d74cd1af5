pub mod Commands
pub mod Sent
pub mod SyncControl
