pub mod Declared
pub mod Inherits
pub mod Listed
pub mod LookUps
pub mod NearPlaces
pub mod Rests
pub mod Places
