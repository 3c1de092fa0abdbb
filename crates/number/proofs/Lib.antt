pub mod Ratio
pub mod Fields
pub mod Casts
pub mod Walk
pub mod Greatest
pub mod Examples
