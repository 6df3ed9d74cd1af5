pub mod Merged
mod Known
mod Said
mod Between
pub mod RowLaws
pub mod Seen
pub mod Numbers
pub mod Texts
pub mod Values
pub mod Joined
pub mod Picked
pub mod RowForms
pub mod KeyBytes
