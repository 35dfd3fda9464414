pub mod Unbased
pub mod tables
pub mod keys
pub mod SoundStores
pub mod shelves
