pub mod Places
pub mod PlaceOrder
pub mod Nodes
pub mod Entries
pub mod Values
