pub mod Sizes
pub mod Appending
pub mod Blocks
pub mod TextLengths
pub mod Picks
