pub mod Lists
pub mod Numbered
pub mod Placed
pub mod Plain
pub mod Shortness
pub mod Pairs
