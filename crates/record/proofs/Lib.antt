pub mod ReadingLaws
pub mod ByValue
pub mod ByteLaws
mod ShapeLaws
mod TypeLaws
pub mod LoneLaws
