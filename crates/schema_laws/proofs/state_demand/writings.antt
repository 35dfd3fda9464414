pub mod Writings
pub mod Given
pub mod Demanded
pub mod Fitting
pub mod Selecting
pub mod Decisions
pub mod NoClash
