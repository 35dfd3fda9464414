pub mod Owned
pub mod TableRules
pub mod ForeignKeys
pub mod StoreRules
