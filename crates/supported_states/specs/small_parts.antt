pub mod Sought
pub mod Sides
pub mod Parts
pub mod Small
