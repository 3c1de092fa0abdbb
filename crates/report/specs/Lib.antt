pub mod Report
pub mod Laid
pub mod Left
pub mod Room
pub mod Examples
