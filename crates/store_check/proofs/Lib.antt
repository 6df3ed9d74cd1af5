mod Rising
mod Standing
mod Behind
mod Whole
mod Judged
mod Listed
mod Written
mod Tables
mod Formed
mod Halves
mod Framing
mod KeyOrder
mod Entries
mod Checkpoints
pub mod Placing
pub mod LaidHalf
pub mod Moving
mod Holding
pub mod Ending
pub mod ReadBack
