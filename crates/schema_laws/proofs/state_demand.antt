pub mod lists
pub mod writings
pub mod tables
pub mod owners
