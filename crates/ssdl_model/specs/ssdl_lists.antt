pub mod Columns
pub mod RawStore
pub mod Tables
