pub mod Allowed
pub mod Listed
pub mod Described
pub mod Plain
