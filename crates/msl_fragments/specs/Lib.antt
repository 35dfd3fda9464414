pub mod ReadsMapping
pub mod Steps
pub mod msl_owners
