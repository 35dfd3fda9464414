pub mod Adding
pub mod AtWriters
pub mod Flat
pub mod Found
pub mod Hosted
pub mod KeyPairs
pub mod Order
pub mod Writers
