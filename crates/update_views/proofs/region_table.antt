pub mod Standing
pub mod Digits
pub mod Values
pub mod Links
pub mod Types
pub mod Finding
pub mod Kept
