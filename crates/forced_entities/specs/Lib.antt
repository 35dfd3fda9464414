pub mod Forced
pub mod Listed
pub mod Held
pub mod Spots
pub mod Walked
pub mod Examples
