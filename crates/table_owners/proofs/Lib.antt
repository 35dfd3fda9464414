pub mod columns
pub mod ownership
pub mod lists
