pub mod Digits
pub mod Place
pub mod Answers
pub mod RoundTrips
