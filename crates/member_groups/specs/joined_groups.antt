pub mod Groups
pub mod Labels
pub mod Places
pub mod Writes
