pub mod Legal
pub mod Breaches
pub mod LegalTables
pub mod TableBreaches
