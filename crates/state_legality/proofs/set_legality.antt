pub mod Beside
pub mod Marking
pub mod Leaves
pub mod Flat
pub mod Unbroken
pub mod Kept
pub mod Conditions
