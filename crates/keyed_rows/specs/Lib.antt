pub mod row_groups
pub mod set_rows
pub mod row_differences
