pub mod Marking
pub mod Stepped
pub mod Gathered
pub mod Asked
pub mod resting
pub mod Planned
pub mod grouped
