pub mod Again
pub mod CondFaults
pub mod Free
pub mod KeysApart
pub mod Meant
pub mod RisingPairs
