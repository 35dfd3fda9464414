pub mod Orders
pub mod Filled
pub mod Passing
pub mod Sums
