pub mod Hosting
pub mod OneEnd
pub mod Owning
pub mod Pairing
pub mod Placing
