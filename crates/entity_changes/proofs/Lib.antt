pub mod Afterwards
pub mod Become
pub mod Fresh
pub mod Kept
pub mod Pushes
pub mod Replaced
pub mod SpotOrder
pub mod same
