pub mod Shelves
pub mod SoundStore
