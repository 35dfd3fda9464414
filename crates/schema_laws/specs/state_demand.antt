pub mod Selecting
pub mod Writings
pub mod MadeTables
pub mod WellWritten
pub mod Owners
pub mod ByRows
