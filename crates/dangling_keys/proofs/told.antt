pub mod Matching
pub mod Rows
pub mod Members
pub mod Told
