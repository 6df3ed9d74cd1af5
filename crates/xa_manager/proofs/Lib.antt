pub mod Rising
pub mod Places
pub mod AllCalls
