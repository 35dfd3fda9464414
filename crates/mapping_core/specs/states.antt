pub mod Documents
pub mod Stores
pub mod Loads
pub mod GivesBack
pub mod Saves
pub mod SaveSteps
pub mod SavesAll
pub mod SaveParts
