pub mod Arrows
pub mod Ends
pub mod Entities
pub mod Least
pub mod Legal
pub mod Links
pub mod LinkStates
pub mod Support
