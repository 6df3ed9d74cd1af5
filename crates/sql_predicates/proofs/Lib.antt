pub mod Numbers
pub mod ColumnPlaces
pub mod Texts
pub mod Places
pub mod Faults
pub mod Fixing
pub mod Meanings
pub mod Runs
