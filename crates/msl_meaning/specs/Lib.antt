pub mod msl_found
pub mod msl_making
pub mod msl_names
pub mod msl_picks
