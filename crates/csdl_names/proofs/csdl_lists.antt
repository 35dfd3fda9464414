pub mod ScopeFacts
pub mod BaseTypes
pub mod Within
