pub mod Rising
pub mod Kinds
pub mod Meaning
pub mod ModelMeaning
pub mod SoundTypes
pub mod School
pub mod csdl_forests
pub mod csdl_making
