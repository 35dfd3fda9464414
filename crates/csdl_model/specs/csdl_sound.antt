pub mod SoundMeaning
pub mod Classes
