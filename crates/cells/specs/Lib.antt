pub mod Cells
pub mod Limits
pub mod Parts
pub mod HostedLinks
pub mod host_links
