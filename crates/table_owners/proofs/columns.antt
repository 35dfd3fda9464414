pub mod Begun
pub mod Cleared
pub mod Free
pub mod Sourcing
