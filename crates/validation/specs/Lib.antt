pub mod CheckShape
pub mod AsFields
pub mod CheckScalar
pub mod Validate
pub mod Separate
pub mod MeasureLaws
