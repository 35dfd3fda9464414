pub mod lists
pub mod types
pub mod kept
pub mod examples
