pub mod Decided
pub mod Shown
pub mod Agreeing
