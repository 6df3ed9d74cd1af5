pub mod Conversing
pub mod Settling
pub mod Arriving
mod Sending
