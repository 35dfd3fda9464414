pub mod Alterations
pub mod Waiting
