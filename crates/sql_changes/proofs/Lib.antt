pub mod AllPlaces
pub mod Gathered
pub mod Rooms
pub mod Lists
pub mod Checks
pub mod Binding
pub mod Sums
pub mod Rows
