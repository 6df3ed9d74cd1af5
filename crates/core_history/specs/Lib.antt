pub mod Wishes
pub mod LeftAnswers
pub mod Books
pub mod Fillings
pub mod Passes
pub mod Gathered
pub mod Lasting
