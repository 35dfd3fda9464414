pub mod Arrows
pub mod Ends
pub mod Numbers
pub mod Searches
