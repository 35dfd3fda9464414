pub mod Entries
pub mod Sets
pub mod Listing
