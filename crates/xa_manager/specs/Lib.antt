pub mod Branch
pub mod Counts
pub mod Due
pub mod Place
pub mod Laws
