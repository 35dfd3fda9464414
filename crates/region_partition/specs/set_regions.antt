pub mod Regions
