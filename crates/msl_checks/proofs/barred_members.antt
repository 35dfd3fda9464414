pub mod Adding
pub mod Barring
