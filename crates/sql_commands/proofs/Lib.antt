pub mod Described
pub mod Holding
pub mod Prepared
pub mod CardLengths
