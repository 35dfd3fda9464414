pub mod Climbs
pub mod PropPlaces
pub mod Repeated
pub mod SetRoles
pub mod Unresolved
pub mod csdl_lists
