pub mod Telling
pub mod Lists
pub mod Pairing
pub mod Owning
pub mod Writers
pub mod Searching
pub mod Tables
