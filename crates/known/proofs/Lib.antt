mod ShapeLaws
pub mod ScalarLaws
mod SpanLaws
pub mod KnownLaws
pub mod KnownFacts
pub mod WholeLaws
