pub mod People
pub mod LongName
pub mod NameUnwritten
pub mod NameShown
pub mod Notes
