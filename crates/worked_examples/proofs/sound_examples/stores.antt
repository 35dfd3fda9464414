pub mod Stores
pub mod SoundStores
pub mod BrokenStores
