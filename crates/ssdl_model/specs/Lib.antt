pub mod StoreFaults
pub mod ReadsStore
pub mod ssdl_lists
pub mod ssdl_rules
pub mod ssdl_making
pub mod ssdl_sound
