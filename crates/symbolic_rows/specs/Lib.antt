pub mod Selected
pub mod Written
pub mod Grouped
pub mod settled_cells
