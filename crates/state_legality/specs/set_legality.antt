pub mod Props
pub mod Types
pub mod Found
pub mod Tells
