pub mod Exact
pub mod Fixed
pub mod Covering
pub mod Framing
pub mod Lying
