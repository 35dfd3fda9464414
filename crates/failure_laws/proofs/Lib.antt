pub mod links
pub mod witness
pub mod places
