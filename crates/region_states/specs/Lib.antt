pub mod Entities
pub mod HoldsFocus
pub mod focus
pub mod defaults
pub mod conflicts
pub mod region_basis
