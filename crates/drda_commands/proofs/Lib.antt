mod Walked
mod Counting
mod Faults
mod Required
mod Passing
mod Alone
