pub mod Rules
pub mod Cells
pub mod References
pub mod Tells
