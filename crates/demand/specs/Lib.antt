pub mod Claims
pub mod Numbers
