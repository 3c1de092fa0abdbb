mod BoxLaws
pub mod BoxFacts
pub mod UnionLaws
mod UnrefineLaws
pub mod WholeLaws
