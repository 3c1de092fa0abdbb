pub mod DimsLaws
pub mod ShapeLaws
pub mod PervadeLaws
