pub mod Kept
pub mod Cursors
pub mod Blocks
pub mod Units
pub mod Fetching
pub mod Laws
pub mod Room
