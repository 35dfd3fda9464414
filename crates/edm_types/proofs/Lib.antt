pub mod Nodes
pub mod Marks
pub mod Derived
pub mod Beside
pub mod StaffForest
pub mod Lookups
