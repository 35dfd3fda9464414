pub mod Sides
pub mod Marks
pub mod Told
pub mod Multiplicities
pub mod Constraints
pub mod Answered
