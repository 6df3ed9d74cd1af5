pub mod Counting
pub mod Fetched
pub mod Opened
pub mod Growing
pub mod Local
pub mod Fetches
