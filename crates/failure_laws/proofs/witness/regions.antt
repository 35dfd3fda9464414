pub mod Cells
pub mod FragmentPlaces
pub mod HostRows
pub mod Disagreements
pub mod Same
