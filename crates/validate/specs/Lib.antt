pub mod Answers
pub mod Lists
pub mod Plans
pub mod Walk
pub mod Refuses
pub mod Dims
