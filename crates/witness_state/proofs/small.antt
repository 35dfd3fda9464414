pub mod Hosted
pub mod Whole
pub mod Made
pub mod States
