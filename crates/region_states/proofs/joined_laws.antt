pub mod Told
pub mod OneRow
