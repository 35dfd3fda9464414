pub mod Found
pub mod Cells
pub mod Lent
pub mod Places
pub mod same_conflicts
