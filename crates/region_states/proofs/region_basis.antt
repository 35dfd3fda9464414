pub mod Order
pub mod Hosts
pub mod Links
pub mod Groups
pub mod Bases
