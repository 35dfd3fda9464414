pub mod OneOwner
pub mod Owned
pub mod Pairing
