mod Passing
mod RowBytes
pub mod PageBytes
mod Growing
pub mod LaidPages
mod KeptPages
mod Placed
mod Refilled
pub mod Comparing
pub mod Rising
