pub mod Locked
pub mod Standing
pub mod Turns
pub mod Desks
pub mod Served
pub mod Closing
pub mod Lasting
