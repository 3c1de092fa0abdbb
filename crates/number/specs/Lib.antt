pub mod Class
pub mod Size
pub mod Sizes
pub mod Kind
pub mod Answers
