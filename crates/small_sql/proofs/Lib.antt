pub mod Claiming
pub mod Counting
pub mod Covered
pub mod Named
pub mod Names
pub mod Planning
pub mod Stored
