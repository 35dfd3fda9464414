pub mod Parts
pub mod Meaning
pub mod Made
pub mod Saying
pub mod Values
pub mod Answered
pub mod Agreeing
pub mod Told
