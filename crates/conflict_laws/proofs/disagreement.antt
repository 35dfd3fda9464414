pub mod OneOnly
pub mod PatternRows
pub mod Places
pub mod Deciding
pub mod Differing
pub mod Failing
pub mod Told
