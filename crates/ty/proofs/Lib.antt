pub mod PartLaws
pub mod FieldLaws
pub mod ContentLaws
pub mod CopyLaws
pub mod ListingLaws
pub mod RowLaws
