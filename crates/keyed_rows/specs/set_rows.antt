pub mod SetRows
pub mod Owning
pub mod Keyed
pub mod AtKey
