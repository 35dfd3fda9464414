pub mod Lines
pub mod BrokenModels
pub mod BrokenStores
pub mod BrokenMappings
pub mod Kinds
pub mod Seats
pub mod Items
