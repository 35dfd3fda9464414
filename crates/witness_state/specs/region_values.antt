pub mod Free
pub mod Changes
pub mod Rivals
