pub mod Deriving
pub mod Made
pub mod OneOwner
pub mod Local
pub mod Fragments
pub mod ReadBack
pub mod Disagreeing
