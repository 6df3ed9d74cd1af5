pub mod Reporting
pub mod LoggingIn
pub mod Deciding
pub mod Program
pub mod Streams
