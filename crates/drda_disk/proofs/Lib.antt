mod Recorded
mod Replaying
mod Transfers
pub mod Moments
pub mod Parts
