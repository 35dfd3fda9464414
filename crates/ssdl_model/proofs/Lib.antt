pub mod RuleNumbers
pub mod SoundReading
