pub mod Names
pub mod Shapes
pub mod Changes
pub mod Reading
