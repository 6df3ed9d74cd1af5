pub mod Numbers
pub mod Reading
pub mod Walking
pub mod Places
pub mod Finding
pub mod Nesting
