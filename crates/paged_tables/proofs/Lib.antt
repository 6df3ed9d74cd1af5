pub mod FormLaws
pub mod Changing
pub mod Shown
pub mod Reading
pub mod Pages
pub mod NamedTables
pub mod TreeSteps
pub mod Reserving
pub mod Opened
pub mod KeyBytes
mod Scanned
