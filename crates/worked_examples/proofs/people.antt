pub mod People
pub mod OneRow
pub mod Stored
pub mod LongName
pub mod NameUnwritten
pub mod NameShown
pub mod Notes
