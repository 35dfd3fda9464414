pub mod Behind
pub mod Walked
