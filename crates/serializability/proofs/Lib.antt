pub mod Order
pub mod Running
pub mod UnitList
pub mod Bare
pub mod Keeping
pub mod Prepared
mod Framed
pub mod Steady
pub mod Sound
pub mod SqlLaws
pub mod CoreLaws
pub mod CoreUnits
pub mod CoreHistories
pub mod Belonging
pub mod Answering
pub mod SerialRuns
