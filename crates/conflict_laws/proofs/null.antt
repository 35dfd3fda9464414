pub mod Listed
pub mod Required
pub mod Nulls
pub mod Failing
pub mod Telling
