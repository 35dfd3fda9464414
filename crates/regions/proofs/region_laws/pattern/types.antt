pub mod Classes
pub mod Groups
pub mod Regions
