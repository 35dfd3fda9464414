pub mod Checked
pub mod FirstLimit
