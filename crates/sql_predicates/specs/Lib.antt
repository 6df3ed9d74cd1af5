pub mod Constant
pub mod Binding
pub mod Parts
pub mod Test
