pub mod Ascents
pub mod Chains
pub mod walks
pub mod Depths
pub mod Levels
pub mod orders
pub mod Tops
pub mod Settled
