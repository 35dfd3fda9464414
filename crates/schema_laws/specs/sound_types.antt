pub mod PropNames
pub mod KeyParts
