pub mod Apart
pub mod Grouping
pub mod Labelled
pub mod Lists
pub mod Placed
pub mod Placing
pub mod Writing
