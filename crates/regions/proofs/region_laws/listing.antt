pub mod Listed
pub mod Counted
pub mod Apart
pub mod Possible
pub mod Choices
