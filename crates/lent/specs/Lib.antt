pub mod Over
pub mod Written
pub mod Delivers
pub mod StandsOver
