mod RuleLaws
mod PlainLaws
pub mod TopLaws
mod ValidateLaws
