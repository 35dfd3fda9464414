pub mod Lists
pub mod Tests
pub mod Names
pub mod models
mod stores
mod mappings
mod KindFacts
