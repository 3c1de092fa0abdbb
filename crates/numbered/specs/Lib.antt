pub mod Calls
pub mod CallLaws
pub mod ValueLaws
pub mod Numbered
pub mod Readings
pub mod Examples
