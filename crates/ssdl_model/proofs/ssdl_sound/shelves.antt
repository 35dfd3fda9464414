pub mod ShelvesKeep
pub mod ShelvesNames
pub mod ShelvesTables
