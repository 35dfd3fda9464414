pub mod Models
pub mod ModelIds
pub mod ModelNames
pub mod Inheritance
pub mod Constraints
