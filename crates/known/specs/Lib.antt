pub mod Known
pub mod Whole
