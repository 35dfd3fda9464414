pub mod Beside
pub mod Walking
pub mod Kept
