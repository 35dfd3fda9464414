pub mod Ends
pub mod Lent
pub mod Listed
pub mod Plain
pub mod Told
