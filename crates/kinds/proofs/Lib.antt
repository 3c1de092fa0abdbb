pub mod KindLaws
pub mod PrintLaws
