pub mod TableLaws
pub mod KindLaws
pub mod RowLaws
