pub mod Written
pub mod Lost
pub mod Matching
pub mod Forms
pub mod Rivals
