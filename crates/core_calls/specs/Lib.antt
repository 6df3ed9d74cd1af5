pub mod SqlFault
pub mod Refusal
pub mod StatementError
pub mod Described
pub mod Call
pub mod Answer
