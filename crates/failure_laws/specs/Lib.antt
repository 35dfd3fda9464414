pub mod SmallLinks
pub mod Facts
pub mod Witnesses
pub mod Places
