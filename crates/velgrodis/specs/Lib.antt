pub mod Answers
pub mod AnswersLaws
pub mod ReadBack
pub mod Codes
pub mod Chosen
pub mod Examples
pub mod Crossing
