pub mod StepsHold
pub mod PervadeHolds
