pub mod Owner
pub mod Table
pub mod Keeping
pub mod Plain
