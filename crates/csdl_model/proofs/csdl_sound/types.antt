pub mod MeantTypes
pub mod PropIds
pub mod Roots
pub mod KeyIds
