pub mod RuleNumbers
pub mod SoundReading
pub mod Steps
pub mod TwoEnds
