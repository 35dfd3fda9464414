pub mod Concrete
pub mod Patterns
pub mod Cells
pub mod Owned
pub mod Rows
