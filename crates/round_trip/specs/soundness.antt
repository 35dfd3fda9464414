pub mod Kinds
pub mod Lookups
pub mod models
pub mod Stores
pub mod mappings
