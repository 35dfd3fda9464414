pub mod Beside
pub mod Holds
pub mod Leading
pub mod Listed
pub mod Order
pub mod Gathering
pub mod Walking
