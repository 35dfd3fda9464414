pub mod Spots
pub mod Gathered
pub mod small_parts
