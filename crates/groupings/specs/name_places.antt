pub mod GivenNames
pub mod Hashes
pub mod PlacesIn
pub mod Fronts
