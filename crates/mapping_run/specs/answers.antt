pub mod Statuses
pub mod Commands
pub mod Says
pub mod Loading
pub mod Saving
pub mod Gives
pub mod Answers
