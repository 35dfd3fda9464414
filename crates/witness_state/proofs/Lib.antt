pub mod Pairing
pub mod Written
pub mod told
pub mod small
pub mod links_small
