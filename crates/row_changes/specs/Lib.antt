pub mod Changes
pub mod Differences
pub mod Orders
pub mod Joined
