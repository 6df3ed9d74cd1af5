pub mod Doubted
pub mod Told
pub mod Dumped
