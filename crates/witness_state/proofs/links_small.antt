pub mod Supported
pub mod Written
pub mod HostRows
pub mod Shared
pub mod States
