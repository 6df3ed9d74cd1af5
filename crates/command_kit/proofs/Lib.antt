pub mod Sums
pub mod Adding
pub mod Sent
pub mod Texts
