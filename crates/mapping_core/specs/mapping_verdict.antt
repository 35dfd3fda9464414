pub mod Words
pub mod Conflicts
