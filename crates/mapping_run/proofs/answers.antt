pub mod Accepted
pub mod Answered
pub mod Loading
pub mod Saving
