pub mod KeptSets
pub mod SetIds
pub mod SetNames
pub mod MeantAssocs
pub mod MeantEnds
pub mod Mults
pub mod SoundAssocs
