pub mod ReadLaws
pub mod StepLaws
