pub mod Hosting
pub mod Covering
pub mod Few
