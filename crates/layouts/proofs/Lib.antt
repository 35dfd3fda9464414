pub mod Rows
pub mod Faults
pub mod Lacking
pub mod Walks
pub mod LayoutRules
