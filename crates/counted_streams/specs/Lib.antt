pub mod Tally
pub mod Counts
pub mod Faults
