pub mod Claim
pub mod Clash
pub mod Lists
pub mod Claims
pub mod Index
