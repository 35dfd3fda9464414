pub mod SameButFree
pub mod Differences
pub mod Alike
pub mod Sides
pub mod InTable
