pub mod Streams
pub mod Arguments
