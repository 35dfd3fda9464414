pub mod Zips
mod Turns
mod CellByCell
mod Telling
mod Noting
pub mod Parts
pub mod Linking
