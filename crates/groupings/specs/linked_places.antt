pub mod Links
pub mod Joinings
