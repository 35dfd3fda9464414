pub mod Founds
pub mod FoundOrder
pub mod Repeats
