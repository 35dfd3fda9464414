pub mod Fragments
pub mod places
pub mod Among
pub mod ColumnNames
pub mod kept
pub mod SetKeys
pub mod owners
