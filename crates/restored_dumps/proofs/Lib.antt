pub mod Asked
pub mod Schemas
pub mod Stores
pub mod Texts
pub mod Values
