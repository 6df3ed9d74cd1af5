pub mod Listing
pub mod Parts
pub mod Bodies
pub mod Lengths
pub mod Turns
