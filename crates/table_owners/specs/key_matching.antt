pub mod Completions
pub mod Matchings
