pub mod Given
pub mod Assigned
pub mod Faults
