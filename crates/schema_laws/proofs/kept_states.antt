pub mod Entities
pub mod Links
pub mod Apart
