pub mod Examples
pub mod PlacesLaws
pub mod ReadersStay
pub mod RefusedStep
