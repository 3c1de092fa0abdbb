pub mod WriteLaws
pub mod CountLaws
pub mod RowLaws
pub mod Examples
pub mod ReadAgain
