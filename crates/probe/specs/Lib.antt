pub mod Judges
pub mod Texts
