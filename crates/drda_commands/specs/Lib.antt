pub mod Tables
pub mod Texts
pub mod Given
pub mod Refusals
pub mod Judge
pub mod Values
pub mod Needs
pub mod Views
