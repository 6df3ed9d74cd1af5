pub mod Merging
pub mod Overlay
pub mod Slots
pub mod Walk
pub mod SortForm
pub mod Fields
pub mod Fronts
pub mod RowForm
