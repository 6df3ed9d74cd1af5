pub mod Stored
pub mod TablesByName
pub mod Steps
pub mod PagedTables
pub mod Lending
pub mod Laws
pub mod Judged
