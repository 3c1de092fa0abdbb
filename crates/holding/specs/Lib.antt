pub mod Fitting
pub mod Bare
pub mod RulesHold
pub mod FitAgainst
