pub mod OneOwner
pub mod OwnedKeys
pub mod PairedAlike
pub mod Writing
