pub mod barred_members
pub mod msl_written
pub mod msl_fragment_rules
pub mod msl_link_rules
