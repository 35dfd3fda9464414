pub mod Allowed
pub mod Possible
