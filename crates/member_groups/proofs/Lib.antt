pub mod Asked
pub mod Marks
pub mod Numbering
pub mod Sharing
pub mod Telling
pub mod Constants
