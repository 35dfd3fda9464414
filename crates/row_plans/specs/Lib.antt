pub mod Altered
pub mod Lengths
pub mod Planned
pub mod Plans
pub mod Roles
pub mod Sides
pub mod Waits
