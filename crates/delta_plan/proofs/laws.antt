pub mod OneList
pub mod Hosting
pub mod Named
pub mod Whole
