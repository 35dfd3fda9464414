pub mod Rows
pub mod Viewed
pub mod ViewedLinks
pub mod Candidates
