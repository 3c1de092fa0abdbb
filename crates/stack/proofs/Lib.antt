pub mod OutLaws
pub mod ApartLaws
pub mod KeepsLaws
pub mod LyingLaws
pub mod StackLaws
pub mod StackFacts
