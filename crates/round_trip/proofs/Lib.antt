mod FirstBreach
mod AtPlaces
mod StateBreaches
mod TableBreaches
pub mod Lookups
pub mod Classes
