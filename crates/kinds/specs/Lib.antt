pub mod Printed
pub mod Room
