pub mod Digits
pub mod Numbers
pub mod Finds
pub mod Made
