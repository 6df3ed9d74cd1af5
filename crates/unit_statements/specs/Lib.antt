pub mod Base
pub mod Question
pub mod Sight
pub mod Found
pub mod Given
