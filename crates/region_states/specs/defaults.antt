pub mod Candidates
pub mod Defaults
pub mod Admissible
