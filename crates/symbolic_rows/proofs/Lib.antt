pub mod Behind
pub mod Hosted
pub mod Placed
pub mod Once
pub mod Grouping
pub mod RowCells
