pub mod Ownerships
pub mod Writers
