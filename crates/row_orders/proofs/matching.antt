pub mod Altered
pub mod Waited
pub mod Placed
pub mod Lined
pub mod Ringed
