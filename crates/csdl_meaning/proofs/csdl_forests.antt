pub mod Places
pub mod Nodes
pub mod Forests
