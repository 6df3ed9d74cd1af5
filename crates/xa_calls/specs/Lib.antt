pub mod Xid
pub mod Numbers
pub mod Request
