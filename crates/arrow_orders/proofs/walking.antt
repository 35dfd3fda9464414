pub mod Left
pub mod Walked
pub mod Rings
pub mod Steps
pub mod Lines
