pub mod Domains
pub mod Symbols
pub mod Atoms
pub mod Told
