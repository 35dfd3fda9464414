pub mod Listed
pub mod Demanded
pub mod Flags
pub mod Hosts
pub mod Partners
pub mod Agreeing
pub mod Given
pub mod Facts
