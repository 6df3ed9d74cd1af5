pub mod Markers
pub mod Part
pub mod Spelling
pub mod Stands
pub mod Terminal
pub mod Tokens
