pub mod Failures
pub mod FirstConflict
pub mod CellPlaces
pub mod Shown
pub mod Small
pub mod SmallRegions
pub mod region_values
pub mod SmallLinks
