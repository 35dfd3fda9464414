pub mod Draws
pub mod Objects
pub mod Lists
pub mod Documents
pub mod Counts
pub mod Nearest
pub mod Mapping
pub mod Line
