pub mod Named
pub mod NotBinary
