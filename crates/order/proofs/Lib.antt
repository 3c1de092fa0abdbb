pub mod AnswerLaws
pub mod ListLaws
pub mod TypeLaws
