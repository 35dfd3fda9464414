pub mod Reordered
pub mod SameState
pub mod SameTables
