pub mod Classes
pub mod Constants
pub mod Shared
