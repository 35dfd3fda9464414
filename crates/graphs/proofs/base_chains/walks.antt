pub mod Climbs
pub mod Paths
pub mod Turns
