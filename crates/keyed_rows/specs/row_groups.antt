pub mod KeyGroups
pub mod Shown
