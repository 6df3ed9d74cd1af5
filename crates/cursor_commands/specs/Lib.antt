pub mod Replies
pub mod Blocks
pub mod Commands
pub mod Asking
pub mod Room
pub mod Sizes
pub mod Laws
