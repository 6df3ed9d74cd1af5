pub mod UnitTable
pub mod KeyChanges
pub mod TableChanges
pub mod TableRows
pub mod Index
pub mod Unit
