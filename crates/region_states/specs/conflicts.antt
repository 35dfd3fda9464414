pub mod Facts
pub mod SameFacts
pub mod Conflicts
pub mod There
