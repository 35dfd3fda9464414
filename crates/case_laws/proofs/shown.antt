pub mod Cases
pub mod Settling
pub mod Present
pub mod Shown
pub mod Links
