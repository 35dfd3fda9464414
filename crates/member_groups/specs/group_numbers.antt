pub mod Joint
pub mod Numbers
