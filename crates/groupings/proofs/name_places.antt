pub mod FirstPlaces
pub mod KnownNames
pub mod Positions
pub mod Finds
pub mod ByTests
pub mod Prefixes
