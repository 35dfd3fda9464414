pub mod Leasts
pub mod Walks
