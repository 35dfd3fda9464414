pub mod Targets
pub mod Breaking
pub mod Keeping
pub mod Ordered
