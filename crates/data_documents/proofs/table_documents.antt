pub mod Cells
pub mod Fits
