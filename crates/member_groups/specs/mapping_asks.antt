pub mod Adding
pub mod Asks
pub mod Several
pub mod Writes
