pub mod NameLaws
pub mod TableFacts
