pub mod Cycles
pub mod Inheriting
pub mod Names
pub mod Counting
