pub mod Entries
pub mod Plain
pub mod Rising
pub mod SameCells
pub mod Sorted
pub mod Told
pub mod TellsApart
pub mod RowTree
