pub mod Endings
pub mod Files
pub mod Stores
pub mod Opening
pub mod InMemory
