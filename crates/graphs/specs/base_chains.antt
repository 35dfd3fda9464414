pub mod Chains
pub mod Climbs
pub mod Jumps
pub mod MarksBelow
pub mod Walks
