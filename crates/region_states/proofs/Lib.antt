pub mod Entities
pub mod Held
pub mod Keys
pub mod focus
pub mod defaults
