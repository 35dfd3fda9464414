pub mod Legal
pub mod Entities
pub mod HostedAt
pub mod Moved
pub mod SameTables
pub mod Different
