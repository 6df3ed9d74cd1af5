pub mod Spelling
pub mod Appending
mod LaidRecords
mod LaidGroups
mod Reading
mod Opening
pub mod Readings
mod SomeReading
mod Laying
pub mod Settled
pub mod Staging
