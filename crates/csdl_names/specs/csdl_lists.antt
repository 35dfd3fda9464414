pub mod Raw
pub mod References
pub mod Scopes
