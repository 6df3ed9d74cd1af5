pub mod Going
pub mod Telling
pub mod Counting
pub mod Lent
