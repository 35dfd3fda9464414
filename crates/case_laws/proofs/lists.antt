pub mod Beside
pub mod Chosen
pub mod Placed
