pub mod Holding
pub mod Joint
pub mod Labels
