pub mod Own
pub mod OwnTold
pub mod Reading
pub mod Flags
pub mod OneCase
pub mod OwnCase
