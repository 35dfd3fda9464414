pub mod States
pub mod Told
pub mod clash
pub mod rival
pub mod same
