pub mod Mappings
pub mod Fragments
pub mod Conditions
pub mod Joined
pub mod Owners
