pub mod Flags
pub mod Held
pub mod Hosting
pub mod Partners
pub mod Regions
pub mod Selected
