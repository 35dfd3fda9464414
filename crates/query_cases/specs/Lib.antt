pub mod case_cells
pub mod case_reading
pub mod case_index
