pub mod Cuts
pub mod Units
pub mod Contents
pub mod Tokens
pub mod Trees
pub mod Nodes
