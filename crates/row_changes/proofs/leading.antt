pub mod Primary
pub mod Replaced
pub mod Stepping
pub mod Leads
