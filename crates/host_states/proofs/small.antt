pub mod Small
pub mod SmallHosts
