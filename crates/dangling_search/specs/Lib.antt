pub mod Lent
pub mod Found
pub mod Searched
pub mod Rows
