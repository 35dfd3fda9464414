pub mod Told
pub mod Reads
