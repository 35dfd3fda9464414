pub mod Views
pub mod CaseRows
pub mod Making
pub mod Placed
pub mod region_table
pub mod view_rows
