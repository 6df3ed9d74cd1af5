pub mod Adding
pub mod Filling
pub mod Told
mod Writing
mod GoingOn
pub mod MergedRows
mod EntryBytes
mod Listing
mod ReadEntries
mod InMemory
pub mod Moments
mod Counting
