mod Filtered
pub mod SameChange
pub mod States
