mod Gathers
mod HostedLists
pub mod Units
