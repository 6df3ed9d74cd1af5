pub mod Answer
pub mod Scope
pub mod Task
pub mod Bound
pub mod Reading
pub mod Keyed
pub mod Described
