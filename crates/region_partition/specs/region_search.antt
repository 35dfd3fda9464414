pub mod Standing
pub mod StandsIn
pub mod Lent
