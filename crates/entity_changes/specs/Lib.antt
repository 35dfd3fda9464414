pub mod Applying
pub mod Changes
pub mod Refusals
pub mod Spots
pub mod Touching
pub mod making
pub mod touched
