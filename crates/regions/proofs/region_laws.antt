pub mod values
pub mod lists
pub mod listing
pub mod entities
pub mod writings
pub mod pattern
