pub mod Owners
pub mod Joined
pub mod Owning
pub mod Told
