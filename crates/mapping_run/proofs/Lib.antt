pub mod FilesRead
pub mod Answered
pub mod Endings
pub mod Complete
