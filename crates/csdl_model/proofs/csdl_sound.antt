pub mod associations
pub mod constraints
pub mod types
pub mod SoundModel
pub mod classes
