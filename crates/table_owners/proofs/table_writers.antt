pub mod Agreeing
pub mod FirstOfKey
pub mod Orders
pub mod Pairs
pub mod Writing
