pub mod Limits
pub mod Refusals
pub mod Types
pub mod Within
pub mod Examples
