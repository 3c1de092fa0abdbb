mod Laws
mod Records
mod PlainLaws
