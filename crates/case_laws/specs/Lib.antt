pub mod Reading
pub mod Told
pub mod filled_rows
pub mod region_cases
pub mod candidates
