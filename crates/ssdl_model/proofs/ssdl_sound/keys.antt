pub mod KeptKeys
pub mod KeySides
pub mod MeantKeys
pub mod SoundKeys
