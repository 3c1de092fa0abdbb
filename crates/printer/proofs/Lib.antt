pub mod CallLaws
pub mod ProgramLaws
pub mod InputLaws
