pub mod Parsed
pub mod Decimal
pub mod Owning
pub mod Returned
pub mod Spelled
