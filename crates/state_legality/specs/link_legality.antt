pub mod Sides
pub mod Ends
pub mod Once
pub mod Counts
pub mod Principals
pub mod Standing
pub mod InOrder
pub mod Tells
