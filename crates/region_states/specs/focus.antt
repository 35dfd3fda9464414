pub mod Held
pub mod Agreeing
pub mod Given
