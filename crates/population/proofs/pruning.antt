pub mod Kept
pub mod KeptLegal
pub mod Needed
pub mod NeededParts
pub mod PartHolds
pub mod RowStates
pub mod NeededBy
pub mod Writers
