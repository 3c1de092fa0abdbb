pub mod Values
pub mod Answers
