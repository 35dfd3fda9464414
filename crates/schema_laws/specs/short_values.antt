pub mod Short
pub mod Numbers
pub mod Fresh
pub mod Places
