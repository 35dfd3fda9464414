mod Differ
pub mod FirstOf
pub mod Grouped
pub mod InTable
pub mod Joined
pub mod Tables
mod WithKey
