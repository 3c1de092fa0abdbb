pub mod Packed
pub mod PackedSizes
pub mod Heads
pub mod Layouts
pub mod Parts
pub mod PackedLaws
