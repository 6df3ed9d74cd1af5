pub mod Units
pub mod Asked
pub mod Events
pub mod Step
pub mod Misread
pub mod Laws
