pub mod Lists
pub mod Distinct
pub mod Permutations
pub mod Places
pub mod Ids
