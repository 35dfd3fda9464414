pub mod Tells
pub mod set_legality
pub mod link_legality
