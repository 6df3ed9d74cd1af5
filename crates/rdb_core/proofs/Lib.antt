pub mod Along
pub mod Back
pub mod Copying
pub mod Lost
pub mod Looking
pub mod Pages
