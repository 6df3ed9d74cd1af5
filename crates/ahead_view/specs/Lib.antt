pub mod Ahead
pub mod Given
pub mod Source
