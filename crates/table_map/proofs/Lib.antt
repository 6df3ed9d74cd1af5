mod Bounded
pub mod Damaged
mod Found
mod Given
mod Going
mod Halved
mod Lent
mod Opened
mod Passed
mod Told
mod Joined
pub mod Knowing
mod Whole
