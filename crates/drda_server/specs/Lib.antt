pub mod Network
pub mod Listening
pub mod Threads
pub mod Serving
