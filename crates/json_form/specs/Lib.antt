pub mod TreeParts
pub mod Members
pub mod Documents
pub mod Nodes
pub mod Trees
pub mod Pointers
pub mod PlaceOrder
pub mod from_nodes
