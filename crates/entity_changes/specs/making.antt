pub mod Fates
pub mod Places
pub mod Standing
pub mod Types
