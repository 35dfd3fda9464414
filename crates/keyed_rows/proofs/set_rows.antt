mod Zips
pub mod Pairing
pub mod Owners
mod KeyOrder
mod TableRows
mod Groups
mod AtKey
