pub mod Told
pub mod RuleNumbers
