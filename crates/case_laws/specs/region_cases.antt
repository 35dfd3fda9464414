pub mod Cases
pub mod Links
pub mod Meets
