pub mod Filters
pub mod Picked
pub mod Linked
pub mod Parts
