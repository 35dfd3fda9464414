pub mod Pairs
pub mod Partners
pub mod Filled
pub mod Entities
pub mod Links
pub mod Sources
pub mod Once
pub mod Tables
