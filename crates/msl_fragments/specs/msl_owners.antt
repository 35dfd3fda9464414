pub mod AllWriters
pub mod KeyPairs
pub mod SetWriters
pub mod Spots
